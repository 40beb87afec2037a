pub mod CutFacts
pub mod NumberFacts
pub mod DecimalFacts
pub mod ParseFacts
pub mod SpellFacts
pub mod LineFacts
pub mod TextFacts
