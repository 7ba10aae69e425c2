pub mod DequeSteps
