mod Replies
mod Truthful
