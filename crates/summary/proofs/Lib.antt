-- The lemmas of the crate, each file after those that it uses.
mod Formats
mod Levels
mod Entering
mod CaseUse
mod Passing
mod WhatIsRead
