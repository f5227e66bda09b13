-- The lemmas of handler.
mod AnnouncingLemmas
pub mod HostLemmas
pub mod StoreLemmas
mod DismissalLemmas
pub mod OpeningLemmas
mod CrewLemmas
mod GuestLemmas
mod HiringLemmas
mod KeptLemmas
mod DeliveryLemmas
mod ModesLemmas
mod RunningLemmas
mod ServedLemmas
mod WorkLemmas
mod HandlingLemmas
mod WholeLemmas
