-- 8, 9 and 10 never come: every order for a block comes late enough, from a fresh state on through every slot.
pub mod Walk
pub mod Invariant
pub mod Good
