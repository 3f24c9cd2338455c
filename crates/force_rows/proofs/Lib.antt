mod RowLaws
mod Apart
mod WalkLaws
mod Order
mod EntryLaws
