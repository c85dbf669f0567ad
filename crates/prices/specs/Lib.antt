pub mod Laws
pub mod PlainKind
pub mod PlainLaws
pub mod RankedKind
pub mod RankedLaws
