pub mod DownSteps
