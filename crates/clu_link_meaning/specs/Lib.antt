-- What a program reaches, the plan of its image, and the words of an image by its plan.
pub mod Walk
pub mod Closed
pub mod Same
pub mod Bounds
pub mod Reach
pub mod Plan
pub mod Image
pub mod Program
pub mod Linked
pub mod Laws
