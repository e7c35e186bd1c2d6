pub mod Hmac
pub mod Parking
pub mod Serving
pub mod Signatures
