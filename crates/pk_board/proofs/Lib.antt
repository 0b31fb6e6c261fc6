mod Amounts
pub mod Stopping
pub mod Restarting
pub mod Asking
pub mod Item_asking
pub mod Item_places
pub mod Emptying_slots
pub mod Ending_parts
pub mod Telling
pub mod Sending_told
pub mod Writing_slots
pub mod Ending_board
pub mod Reading_slots
pub mod Ending_plan
pub mod Starting
pub mod Reading_told
