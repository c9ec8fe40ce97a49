mod Answered
mod FirstWord
mod InitializerLists
mod Typedefs
mod UnitLists
