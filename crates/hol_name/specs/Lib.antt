pub mod Behind
pub mod Components
pub mod Demangled
pub mod Escapes
pub mod Laws
