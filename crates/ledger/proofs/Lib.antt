mod Counts
mod Totals
