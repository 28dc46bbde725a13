mod AllStand
mod DecidesAmong
mod Follows
mod Mapped
mod OpenedText
mod PathsSeen
mod Replaced
mod Synced
