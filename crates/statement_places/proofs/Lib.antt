pub mod BegunLemmas
pub mod ExprStarts
pub mod Margins
pub mod Starting
