pub mod OperationLemmas
