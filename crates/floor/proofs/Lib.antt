pub mod RisingFacts
pub mod GridFacts
pub mod PickFacts
pub mod HallFacts
pub mod GridLanes
pub mod FloorFacts
pub mod HallLaws
pub mod LaneSteps
