-- What the functions of word code need.
mod Counts
