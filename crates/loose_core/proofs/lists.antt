-- Lists by places, lists that rise, sorts, and histories whose entries change places.
pub mod Words
pub mod Exchanges
pub mod SerialRuns
pub mod Rising
pub mod StableSorts
pub mod Places
