pub mod OpenLaws
pub mod Tests
pub mod OfferLaws
