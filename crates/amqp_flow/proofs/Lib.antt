pub mod SerialLaws
pub mod FlowLaws
