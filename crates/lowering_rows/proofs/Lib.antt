mod BlockEntered
mod StructureAreas
mod StuckCode
