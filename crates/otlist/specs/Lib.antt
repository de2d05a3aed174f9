-- What a reader must believe of the listing.
pub mod Listing
pub mod Words
