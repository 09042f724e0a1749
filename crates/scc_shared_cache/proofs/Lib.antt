mod Replies
mod StripeWalks
pub mod SizesLemmas
