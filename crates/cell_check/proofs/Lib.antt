mod Few
mod Telling
