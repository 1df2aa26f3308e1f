mod Eights
mod Quarters
mod Schedules
mod Sized
