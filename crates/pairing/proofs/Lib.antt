pub mod PairingSteps
