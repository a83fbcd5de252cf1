-- What the tests of the choice have found; and why the choice by figures is the model's.
pub mod Counting
pub mod Paper
