-- Cards.
pub mod Inside
pub mod Lawful
pub mod Activation
pub mod Apdu
pub mod CardAnswer
pub mod CardLimits
pub mod Direct
pub mod Field
pub mod Images
pub mod LinkedField
pub mod Numbers
pub mod TypeA
pub mod TypeB
