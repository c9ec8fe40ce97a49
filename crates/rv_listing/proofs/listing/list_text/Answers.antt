use Rattle.std.proofs.Common.{ap, ◌∙◌, ◌++◌, length}
use Rattle.rv_listing.specs.Lines.{image, line_text, piece_text}
use Rattle.rv_listing.specs.Listings.{listing_text, listing, words, merged, text_of}
use Rattle.rv_listing.proofs.listing.list_text.Goals as goal

pub returns : goal.returns
unfolding listing_text listing text_of piece_text
returns c =
    c.in_ok-put_words.ensures
    ∙ ap (λ x. x ++ text_of (merged (words c.args.code.now 0 c.args.bytes.now)))
    (c.in_ok-put_count.ensures
    ∙ ap (λ x. x ++ line_text (image (length c.args.bytes.now))) c.in_ok-text.ensures.items)
