mod Ruling
mod Totals
mod Walk
