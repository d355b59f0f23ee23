-- An object that a call is lent.
pub use Rattle.kn_request.specs.Changes.{Change, Lent, became, lent, was}
