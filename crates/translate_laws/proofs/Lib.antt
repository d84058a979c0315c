mod ItemExamples
mod LawExamples
mod ShapeExamples
