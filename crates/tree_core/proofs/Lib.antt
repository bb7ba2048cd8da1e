mod BoundLemmas
mod ToldLemmas
mod VersionLemmas
pub mod QuietLemmas
mod BookSteps
pub mod LookupSteps
mod OpeningSteps
mod SettlingLemmas
mod KeepLemmas
mod TakingLemmas
mod TakingLists
mod AdmissionLemmas
mod AdmissionFollows
mod AdmissionSteps
pub mod SizeLemmas
pub mod PlayLemmas
mod LastLemmas
pub mod QuantumLemmas
pub mod QuantumSteps
pub mod PaymentLemmas
pub mod PaymentSteps
pub mod TurnMoves
pub mod TurnLemmas
pub mod TurnSteps
pub mod BegunLemmas
mod ClockLemmas
mod NotingLemmas
mod TurnCalls
mod PaymentCalls
mod AfterReads
mod FirstLemmas
mod RefusalSteps
mod RefusalCalls
mod AdmissionCalls
mod AdmissionJoins
mod HoldSteps
mod HoldStepsByCall
mod HoldCalls
mod ScanLemmas
pub mod CallLemmas
