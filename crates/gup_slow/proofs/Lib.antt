pub mod PinSteps
