pub mod CodeCalls
pub mod SpelledNames
pub mod TypedTexts
