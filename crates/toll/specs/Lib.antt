pub mod Tolls
pub mod SecondsKind
pub mod GatesKind
pub mod Refusals
pub mod GatesLaws
pub mod SecondsLaws
