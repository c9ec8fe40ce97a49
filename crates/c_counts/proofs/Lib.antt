mod Excesses
mod Members
