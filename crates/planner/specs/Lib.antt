pub mod Calls
pub mod Held
pub mod RouteLaws
pub mod Served
pub mod Reachable
pub mod Promise
pub mod Handed
