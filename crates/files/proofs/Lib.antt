mod Cuts
mod Handed
mod Ruling
