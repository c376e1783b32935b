pub mod StandIn
pub mod Products
