pub mod FirstTypes
pub mod Pushed
pub mod FineCalls
pub mod RoutineTypes
pub mod Scanned
pub mod FinePrinting
