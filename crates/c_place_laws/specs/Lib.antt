pub mod FinePlaces
