mod SeatsBegun
mod SeatsLeft
