mod Causes
mod Known
mod OneText
mod Statuses
mod Told
