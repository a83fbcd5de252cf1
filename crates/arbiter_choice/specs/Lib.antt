-- The arbiter's choice by the figures of a state.
pub mod Says
