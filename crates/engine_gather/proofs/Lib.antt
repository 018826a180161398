mod Takes
mod Ending
mod Columns
mod Parting
mod Looks
mod AllSeats
