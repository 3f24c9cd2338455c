pub mod Laws
mod QuickLaws
