mod Leading
mod Terms
