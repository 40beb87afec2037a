pub mod FairFacts
pub mod ScanFacts
pub mod StoreFacts
pub mod PlanFacts
