-- The definitions that the contracts cite (Texts), and the lemmas behind the laws that the impls cite.
pub mod Texts
pub mod Laws
pub mod LastDigits
