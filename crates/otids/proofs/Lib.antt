-- Laws of the list of ids.
mod Says
