mod WordLaws
mod NameReadLaws
mod TextLaws
mod ShortLaws
mod ReplyLaws
