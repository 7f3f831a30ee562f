pub mod OwnRoutes
pub mod Laws
