pub mod TokenViews
pub mod Outcomes
pub mod ExprViews
pub mod DefViews
pub mod DefBounds
pub mod Reads
pub mod PrintAdds
