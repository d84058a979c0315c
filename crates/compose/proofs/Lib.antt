mod IdLaws
mod ListedLaws
mod OrderLaws
mod PlaceLaws
mod PoolLaws
