pub mod CreditLaws
pub mod Tests
pub mod SentLaws
pub mod ReceivedLaws
pub mod Totals
