mod Showing
mod Listed
mod Telling
mod Stepping
