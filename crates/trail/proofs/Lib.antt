mod WalkLaws
mod Reasons
mod CallLaws
